pub mod Depths
pub mod Bytes
pub mod Sounds
