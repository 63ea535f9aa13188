pub mod Extremes
pub mod Seen
pub mod Sums
pub mod Taken
pub mod Wide
