pub mod Refusals
pub mod Repeats
