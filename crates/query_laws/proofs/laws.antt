pub mod Theorems
pub mod Widths
