pub mod BitWords
pub mod Held
pub mod Answers
pub mod First
pub mod Bits
pub mod RoundHeld
