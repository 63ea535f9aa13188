pub mod Bundles
pub mod Groups
pub mod Kept
