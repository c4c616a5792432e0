pub mod Staircase
pub mod Codes
pub mod Shape
