pub mod Feeds
mod Counting
pub mod Answers
