pub mod Kept
pub mod Reads
pub mod Sound
