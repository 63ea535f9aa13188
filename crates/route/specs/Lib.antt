pub mod Channel
pub mod Routing
