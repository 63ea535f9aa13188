pub mod Flows
pub mod Keys
