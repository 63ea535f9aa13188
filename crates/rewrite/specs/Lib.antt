pub mod Rewritten
pub mod Views
