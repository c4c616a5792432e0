pub mod Steps
pub mod Answers
pub mod Holds
pub mod Cases
