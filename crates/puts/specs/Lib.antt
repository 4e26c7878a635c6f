pub mod Put
pub mod Joined
