pub mod Agree
pub mod Batch
pub mod Runs
