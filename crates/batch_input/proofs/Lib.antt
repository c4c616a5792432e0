pub mod Load
pub mod Room
pub mod Wellformed
pub mod Handed
