pub mod First
pub mod Held
pub mod Shown
pub mod Turned
pub mod Steps
