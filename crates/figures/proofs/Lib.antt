pub mod Euclid
pub mod Sums
pub mod Limits
pub mod Cases
