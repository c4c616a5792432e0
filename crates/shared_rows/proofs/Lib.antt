pub mod Index
pub mod Laid
pub mod Cycles
pub mod Order
pub mod Scan
