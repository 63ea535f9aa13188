pub mod Chains
pub mod OperandChains
pub mod Scripts
