pub mod Block
pub mod Calls
pub mod Bytes
