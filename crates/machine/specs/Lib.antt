pub mod Machine
pub mod Streams
pub mod Pieces
pub mod OneShot
