pub mod Made
pub mod Refused
pub mod Shown
pub mod laws
