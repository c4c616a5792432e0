pub mod CleanFrames
pub mod Limits
pub mod Calls
