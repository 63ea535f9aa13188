pub mod Early
pub mod Headline
pub mod Rows
pub mod Runs
pub mod Stops
