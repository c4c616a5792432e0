pub mod Groups
pub mod Promise
