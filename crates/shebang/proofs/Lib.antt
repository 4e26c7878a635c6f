mod Lines
mod First
mod Follows
pub mod AnyLists
mod Strips
pub mod Answers
