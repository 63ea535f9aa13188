pub mod WellDeclared
pub mod Judgement
pub mod Statements
pub mod Tables
