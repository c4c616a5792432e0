pub mod Picks
pub mod Searches
