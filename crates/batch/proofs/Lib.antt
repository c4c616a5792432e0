pub mod Sizes
pub mod Pairs
pub mod Frames
pub mod Whole
pub mod Promise
pub mod RoundTrip
