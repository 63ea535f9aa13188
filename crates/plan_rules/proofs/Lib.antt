pub mod Plans
pub mod laws
