pub mod Choices
pub mod Sums
