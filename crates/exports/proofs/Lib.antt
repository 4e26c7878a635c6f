pub mod Runs
pub mod Goings
pub mod Blocks
pub mod Shebangs
pub mod Answers
