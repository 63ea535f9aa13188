pub mod Same
pub mod Seen
pub mod Views
