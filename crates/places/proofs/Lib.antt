pub mod Told
pub mod Searches
