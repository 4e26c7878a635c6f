pub mod Readings
pub mod Texts
pub mod Loads
pub mod RoundTrip
pub mod FirstBad
pub mod Answers
pub mod Digits
mod Rows
