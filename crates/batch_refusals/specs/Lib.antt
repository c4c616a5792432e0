pub mod Pairs
pub mod Refusals
pub mod Steps
