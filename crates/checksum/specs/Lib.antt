pub mod Qex
pub mod Register
pub mod Upper
