pub mod Choices
pub mod Among
pub mod Picks
