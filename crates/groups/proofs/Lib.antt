pub mod Clean
pub mod Whole
pub mod Parts
pub mod Promise
