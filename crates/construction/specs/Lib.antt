pub mod Columns
pub mod Quick
pub mod Tables
pub mod Codes
