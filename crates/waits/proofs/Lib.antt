pub mod Returns
pub mod Calls
pub mod Ends
pub mod Cuts
pub mod Apart
pub mod Joins
pub mod Parts
