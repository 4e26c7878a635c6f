pub mod Putting
pub mod Fillings
pub mod Calls
pub mod Answers
