pub mod Kinds
pub mod UpdateKeys
pub mod Updates
pub mod Modes
