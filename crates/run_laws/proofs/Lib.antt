mod Answers
mod Joins
mod Outs
mod Rows
mod Types
mod Whole
mod early
pub mod laws
