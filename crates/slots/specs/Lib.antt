pub mod Numbers
pub mod Fills
pub mod Answers
