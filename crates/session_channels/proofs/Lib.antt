pub mod Lanes
pub mod Routings
pub mod Sends
