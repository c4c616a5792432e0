pub mod Columns
pub mod Edges
pub mod EachColumn
pub mod Pads
pub mod Tables
pub mod Scattered
