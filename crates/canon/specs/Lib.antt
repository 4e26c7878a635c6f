pub mod Keyable
pub mod Meaning
pub mod Key
pub mod Spelled
pub mod Fair
pub mod Local
pub mod Agree
