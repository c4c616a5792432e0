pub mod Word
pub mod Answers
pub mod Under
pub mod Cases
