pub mod Blanks
pub mod PartialResults
pub mod Picked
pub mod Readings
pub mod Upto
