pub mod Filling
pub mod Promise
pub mod Calls
