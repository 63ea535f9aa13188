pub mod Ascii
pub mod Quotes
pub mod Splits
pub mod Turns
pub mod laws
