pub mod Quotes
pub mod Raw
pub mod Quoted
