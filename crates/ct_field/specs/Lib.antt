pub mod Fields
pub mod Numbers
pub mod Spells
pub mod Typed
