pub mod Changelog
pub mod Counts
pub mod Emission
pub mod KeyRows
pub mod Kinds
pub mod LastRows
