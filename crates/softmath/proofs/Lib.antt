pub mod Floats
pub mod Unrounded
pub mod LeaveOneOut
pub mod Signless
pub mod Steps
pub mod Messages
pub mod ZeroStart
pub mod Cases
