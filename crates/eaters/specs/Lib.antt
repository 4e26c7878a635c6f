pub mod Eat
pub mod Look
pub mod Scan
pub mod Find
