pub mod Inserts
pub mod Planned
pub mod Promises
pub mod Shown
