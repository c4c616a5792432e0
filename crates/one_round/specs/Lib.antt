pub mod Round
pub mod Held
