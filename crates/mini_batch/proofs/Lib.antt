pub mod Changes
pub mod Grouped
