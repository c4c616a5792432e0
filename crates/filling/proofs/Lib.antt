pub mod Cases
pub mod Named
pub mod Settings
pub mod Laws
pub mod Steps
