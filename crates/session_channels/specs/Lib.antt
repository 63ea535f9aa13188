pub mod Lanes
pub mod Routes
pub mod Sending
