pub mod Stops
pub mod Waits
pub mod Shifts
