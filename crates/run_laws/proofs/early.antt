pub mod Deeds
pub mod Edits
pub mod Effects
pub mod Places
pub mod Swaps
