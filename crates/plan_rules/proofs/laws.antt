pub mod Answering
pub mod Behaviours
pub mod ChangeFits
pub mod Columns
pub mod Erasing
pub mod Numbers
pub mod Reading
pub mod Theorems
