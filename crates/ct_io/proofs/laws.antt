pub mod Appending
pub mod Pieces
