pub mod Early
pub mod Parts
pub mod Stops
pub mod Stream
pub mod Writing
