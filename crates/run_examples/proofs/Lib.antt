mod Planned
mod Worked
pub mod laws
