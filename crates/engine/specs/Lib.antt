pub mod Laid
pub mod Chars
pub mod Runs
pub mod Ends
pub mod Needs
pub mod Closes
pub mod Wholes
