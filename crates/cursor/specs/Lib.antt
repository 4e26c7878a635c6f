pub mod Cursors
pub mod Moved
pub mod Ran
pub mod Wanted
pub mod Counted
