pub mod Endings
pub mod Outcome
pub mod Runs
pub mod Status
