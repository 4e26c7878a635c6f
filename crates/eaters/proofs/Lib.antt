pub mod Fits
pub mod Firsts
pub mod Begins
