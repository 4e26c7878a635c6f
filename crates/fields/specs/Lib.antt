pub mod Pieces
pub mod Words
pub mod Numerals
pub mod Puts
