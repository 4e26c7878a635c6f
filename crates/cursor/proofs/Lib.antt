pub mod Steps
pub mod Moves
pub mod Runs
pub mod Loops
pub mod Counts
pub mod Bytes
