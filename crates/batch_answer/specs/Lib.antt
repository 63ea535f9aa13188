pub mod Indexes
pub mod Matches
pub mod Parts
pub mod Ranking
pub mod Tables
pub mod Tallies
