pub mod Tallies
pub mod Surveys
pub mod Fills
pub mod Answers
