pub mod Pads
pub mod PadsSet
pub mod Steps
