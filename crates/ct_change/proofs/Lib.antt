pub mod Counts
pub mod KeyRow
pub mod Runs
pub mod laws
