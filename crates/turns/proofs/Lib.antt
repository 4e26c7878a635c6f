pub mod Begun
pub mod Modes
