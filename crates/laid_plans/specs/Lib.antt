pub mod Erased
pub mod Inferred
pub mod Shapes
