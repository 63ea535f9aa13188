pub mod Chains
pub mod Checked
pub mod Faults
pub mod Sound
pub mod Types
