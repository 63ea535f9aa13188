pub mod Behind
pub mod Firsts
pub mod Lists
pub mod Orders
pub mod Plains
pub mod Splits
