pub mod Copies
pub mod Counts
pub mod Holdings
pub mod InMemory
pub mod Written
