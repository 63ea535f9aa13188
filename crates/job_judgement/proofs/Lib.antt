pub mod Bound
pub mod Walks
pub mod laws
