mod Lines
mod Groups
mod Calls
pub mod Fits
pub mod Answers
pub mod ReadBack
