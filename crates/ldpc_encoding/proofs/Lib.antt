pub mod Parity
pub mod Gather
pub mod Codeword
