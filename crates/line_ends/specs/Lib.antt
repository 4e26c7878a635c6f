pub mod LineEnds
pub mod Twins
