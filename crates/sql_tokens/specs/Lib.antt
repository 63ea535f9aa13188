pub mod Depth
pub mod Fronts
pub mod Statements
pub mod Tokens
