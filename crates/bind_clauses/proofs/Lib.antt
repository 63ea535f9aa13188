pub mod Behind
pub mod Finds
pub mod Grouped
pub mod Heads
pub mod InTurn
pub mod Projects
pub mod Runs
pub mod Unites
