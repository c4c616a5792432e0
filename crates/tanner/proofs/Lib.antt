pub mod Count
pub mod Flat
pub mod Steps
pub mod Places
pub mod First
