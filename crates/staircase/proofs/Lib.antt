pub mod EdgeCount
pub mod Positions
pub mod Cases
pub mod Codes
pub mod Laid
