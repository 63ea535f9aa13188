pub mod Arithmetic
pub mod Ranges
pub mod Statement
pub mod Tame
