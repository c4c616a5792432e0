pub mod Picks
pub mod Made
pub mod Agree
pub mod Different
pub mod Regular
