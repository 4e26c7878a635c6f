mod Filling
pub mod Answers
