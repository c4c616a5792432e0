pub mod FrameAt
pub mod Limits
