pub mod Averages
pub mod Different
pub mod ExtremeItems
pub mod Products
pub mod Sizes
pub mod Weights
