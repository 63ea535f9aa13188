pub mod Alone
pub mod Outcomes
