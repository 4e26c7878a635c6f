pub mod Fills
pub mod Answers
pub mod Alike
