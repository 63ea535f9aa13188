pub mod Groups
pub mod Held
