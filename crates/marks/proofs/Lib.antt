pub mod Ranges
pub mod Bytes
pub mod Places
pub mod Keys
pub mod Twins
pub mod Answers
