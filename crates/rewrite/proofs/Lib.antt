pub mod Again
pub mod laws
