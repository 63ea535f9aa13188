pub mod Rows
pub mod Standing
pub mod Taking
pub mod Theorems
