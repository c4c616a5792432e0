pub mod Judged
pub mod Exits
