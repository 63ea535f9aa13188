pub mod Ascii
pub mod Bounded
mod Decimals
pub mod Digits
pub mod Powers
pub mod PowersOfTen
pub mod Short
pub mod Texts
pub mod laws
