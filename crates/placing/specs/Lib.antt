pub mod OnePick
pub mod Tables
