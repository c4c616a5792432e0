pub mod Rows
pub mod BySlots
pub mod Codes
