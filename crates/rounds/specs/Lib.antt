pub mod Rounds
pub mod Told
pub mod Run
