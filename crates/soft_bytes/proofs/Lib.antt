pub mod Value
pub mod Byte
