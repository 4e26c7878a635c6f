pub mod Rows
pub mod Takes
pub mod Cover
pub mod Alike
pub mod Shapes
pub mod Says
pub mod Lines
