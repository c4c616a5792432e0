pub mod Tables
pub mod Encoding
pub mod Calls
pub mod Bytes
