pub mod Catalogue
pub mod Columns
pub mod Numbers
pub mod Setting
pub mod Tables
pub mod Types
