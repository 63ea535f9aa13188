pub mod Plans
pub mod Ports
pub mod Tables
pub mod laws
