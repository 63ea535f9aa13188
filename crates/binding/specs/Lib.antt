pub mod Checked
pub mod Expressions
pub mod InGroups
pub mod Inserts
pub mod Nodes
pub mod Queries
