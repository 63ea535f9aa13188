pub mod Pieces
pub mod Subtasks
pub mod laws
