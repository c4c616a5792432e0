pub mod Codes
pub mod Pairs
pub mod Calls
pub mod Steps
pub mod Promise
pub mod RoundTrip
