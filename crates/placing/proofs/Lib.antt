pub mod Picks
pub mod Finished
