pub mod Behind
pub mod Bounds
pub mod Columns
pub mod Conjuncts
pub mod Operands
pub mod Rels
pub mod Sources
pub mod Turns
