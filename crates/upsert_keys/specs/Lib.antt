pub mod Seen
pub mod Joins
pub mod Keys
