pub mod Added
pub mod Cases
