pub mod Marks
pub mod Front
