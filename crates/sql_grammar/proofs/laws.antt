pub mod Depths
pub mod Steps
pub mod Theorems
