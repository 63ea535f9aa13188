pub mod ByName
pub mod laws
