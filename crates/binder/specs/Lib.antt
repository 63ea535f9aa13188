pub mod Bound
pub mod Steps
pub mod Views
