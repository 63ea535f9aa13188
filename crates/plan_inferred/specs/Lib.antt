pub mod Inferred
pub mod Local
pub mod Rules
pub mod Same
pub mod Ways
