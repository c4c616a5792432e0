pub mod Asked
pub mod Frame
pub mod Whole
pub mod Promise
pub mod Cases
