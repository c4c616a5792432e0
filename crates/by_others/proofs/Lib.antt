pub mod ByOthers
pub mod Cases
