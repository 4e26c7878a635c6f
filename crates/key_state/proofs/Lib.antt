pub mod Parts
pub mod Joined
