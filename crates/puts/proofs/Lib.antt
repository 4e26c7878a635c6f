pub mod Puts
pub mod Joining
