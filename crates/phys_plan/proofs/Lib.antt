mod Names
pub mod laws
