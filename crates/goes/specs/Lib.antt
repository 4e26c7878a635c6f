pub mod Went
pub mod Suffix
