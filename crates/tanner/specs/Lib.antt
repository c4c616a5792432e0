pub mod Checks
pub mod Masked
pub mod Flat
pub mod Found
