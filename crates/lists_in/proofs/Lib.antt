pub mod Counting
pub mod Steps
pub mod Surveying
pub mod Filling
pub mod Calls
pub mod Answers
pub mod Fits
