pub mod Scans
pub mod Checked
pub mod Steps
pub mod Ready
pub mod Answers
pub mod Taken
pub mod Sources
