pub mod Counting
pub mod Sevens
