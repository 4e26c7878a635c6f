pub mod Counting
pub mod Planning
pub mod Answers
