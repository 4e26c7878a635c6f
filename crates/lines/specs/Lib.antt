pub mod Lines
pub mod Filled
