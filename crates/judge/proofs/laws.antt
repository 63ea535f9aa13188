pub mod DeclaredTables
pub mod Theorems
