pub mod Planned
pub mod Refusals
pub mod Tops
