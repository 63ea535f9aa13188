pub mod Types
pub mod laws
