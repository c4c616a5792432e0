pub mod Tables
pub mod Code174
pub mod Agreement
