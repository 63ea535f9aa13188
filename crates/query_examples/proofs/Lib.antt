pub mod Answering
pub mod laws
