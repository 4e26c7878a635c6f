pub mod Written
pub mod Said
