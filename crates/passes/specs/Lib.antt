pub mod Codes
pub mod Passes
