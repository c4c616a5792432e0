pub mod Reasons
pub mod Holds
