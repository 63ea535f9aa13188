pub mod Conditions
pub mod Lists
pub mod Sets
pub mod Unions
pub mod Views
