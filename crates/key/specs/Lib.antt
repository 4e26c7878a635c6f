pub mod Answers
pub mod Valid
