pub mod Numbered
pub mod Shaped
pub mod laws
