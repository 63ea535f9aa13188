pub mod Columns
pub mod Lists
pub mod Splits
pub mod Views
