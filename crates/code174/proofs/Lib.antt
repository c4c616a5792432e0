pub mod Arrays
pub mod Tests
pub mod Graph
pub mod Agreement
pub mod BySlots
