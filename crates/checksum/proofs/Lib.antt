pub mod Xor
pub mod Turn
pub mod Division
pub mod Fed
pub mod Upper
pub mod Agreement
