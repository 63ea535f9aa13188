pub mod Halving
pub mod Stays
pub mod laws
