pub mod KeysTold
pub mod Theorems
