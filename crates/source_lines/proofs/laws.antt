pub mod Along
pub mod Files
pub mod Parts
pub mod Records
pub mod Theorems
