pub mod Why
pub mod Promise
