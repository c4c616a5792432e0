pub mod Refusals
pub mod Frames
pub mod Batches
pub mod Cases
