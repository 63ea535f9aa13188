pub mod Columns
pub mod Explained
pub mod Parts
pub mod Reading
