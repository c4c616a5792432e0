pub mod Plain
pub mod Args
pub mod Calls
pub mod Lend
pub mod Loans
pub mod Walk
pub mod Frame
pub mod Elements
