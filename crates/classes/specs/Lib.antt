pub mod Whitespace
pub mod Identifiers
pub mod Emoji
pub mod Answers
