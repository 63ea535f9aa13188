pub mod Differences
pub mod Emissions
pub mod Folds
pub mod KeyRows
pub mod Lasts
pub mod Meanings
pub mod Theorems
