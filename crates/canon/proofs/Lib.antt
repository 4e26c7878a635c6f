pub mod Short
mod Stills
pub mod Sounds
mod Scans
mod Rules
pub mod Advance
pub mod Chain
pub mod Spelling
pub mod Keyed
pub mod Written
pub mod Canon
pub mod Agreeing
pub mod Mark
pub mod Needed
pub mod Keys
pub mod Alike
