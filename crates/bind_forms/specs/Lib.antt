pub mod Lists
pub mod Meant
pub mod Views
