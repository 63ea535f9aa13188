pub mod Ahead
pub mod Large
pub mod Theorems
pub mod Topped
