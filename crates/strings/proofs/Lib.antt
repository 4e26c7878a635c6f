mod Bounds
mod Guesses
mod Checks
mod Strings
mod Calls
mod Numbering
pub mod Answers
