mod Chains
pub mod laws
