pub mod Changes
pub mod Expressions
