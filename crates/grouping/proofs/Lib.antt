pub mod Sizes
pub mod Groups
pub mod Cases
