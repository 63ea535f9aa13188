pub mod Computed
pub mod Theorems
