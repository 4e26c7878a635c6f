pub mod Guesses
pub mod RawChecks
pub mod Guards
