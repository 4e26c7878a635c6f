pub mod Replaced
pub mod Coded
pub mod Places
pub mod Twins
pub mod Answers
