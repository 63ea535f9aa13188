pub mod Counts
pub mod Exits
pub mod Found
pub mod Leaves
pub mod Lists
pub mod Nodes
pub mod Operands
pub mod Windows
