pub mod Codes
pub mod Place
