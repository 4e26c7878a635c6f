pub mod Names
pub mod File
pub mod Lines
pub mod Load
pub mod FirstBad
pub mod Verdicts
