pub mod Keys
pub mod Reach
pub mod Walk
