pub mod Orders
pub mod Causes
pub mod Answers
pub mod Handing
