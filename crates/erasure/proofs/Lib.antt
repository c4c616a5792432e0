pub mod Codes
pub mod Erased
pub mod Answers
