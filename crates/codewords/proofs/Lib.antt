pub mod CheckSets
pub mod Span
pub mod Codewords
pub mod PackedWords
