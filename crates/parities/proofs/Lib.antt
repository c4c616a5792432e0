pub mod Codewords
pub mod Filled
