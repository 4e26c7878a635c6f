pub mod Sorts
pub mod Bare
pub mod Details
pub mod Decode
pub mod Answers
