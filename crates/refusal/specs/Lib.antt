pub mod Verdict
pub mod Numbers
pub mod Order
