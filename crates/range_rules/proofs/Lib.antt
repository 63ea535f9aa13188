pub mod Bound
pub mod Calls
pub mod Checked
pub mod InGroups
pub mod Nodes
pub mod Queries
pub mod Selects
pub mod laws
