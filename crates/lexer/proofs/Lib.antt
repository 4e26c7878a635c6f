mod Scanning
mod Stepping
pub mod Checks
pub mod Records
pub mod Answers
pub mod Walks
pub mod Alike
pub mod Sources
