pub mod Utf8
pub mod Ascii
pub mod Next
pub mod Chars
pub mod Verdicts
pub mod Causes
pub mod Position
