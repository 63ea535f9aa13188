pub mod Tables
pub mod laws
