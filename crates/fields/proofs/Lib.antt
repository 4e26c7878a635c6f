pub mod Cuts
pub mod Words
pub mod Values
pub mod Numerals
pub mod Puts
pub mod Answers
