pub mod Digits
pub mod Elements
pub mod laws
