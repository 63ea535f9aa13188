pub mod Shape
pub mod Shaped
pub mod Tables
