pub mod AreBits
pub mod Digits
pub mod Packed
