pub mod Under
pub mod Calls
