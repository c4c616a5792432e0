pub mod Lengths
pub mod Totals
pub mod Cases
