pub mod Pairs
pub mod Search
pub mod Turns
pub mod Laws
pub mod Cut
pub mod Answers
pub mod Limit
