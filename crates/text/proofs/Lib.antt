pub mod Put
pub mod Lengths
pub mod Hex
