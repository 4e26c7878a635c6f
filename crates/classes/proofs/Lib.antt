pub mod Points
pub mod Checks
pub mod Idents
pub mod Laws
pub mod Answers
