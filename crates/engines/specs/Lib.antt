pub mod Engines
pub mod Same
