pub mod Staircase
pub mod Cases
