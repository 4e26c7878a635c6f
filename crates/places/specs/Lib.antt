pub mod Found
pub mod Shifts
