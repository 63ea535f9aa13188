pub mod Created
pub mod Tables
pub mod Texts
pub mod Walk
pub mod laws
