pub mod Magnitudes
pub mod Minima
pub mod Seeing
