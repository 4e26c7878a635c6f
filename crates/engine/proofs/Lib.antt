pub mod Lays
pub mod Feeds
pub mod Ends
pub mod Loops
pub mod Closes
pub mod Wholes
pub mod Answers
