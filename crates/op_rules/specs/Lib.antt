pub mod Edges
pub mod Faults
pub mod History
pub mod Partials
pub mod Ports
pub mod Rules
pub mod Tasks
pub mod Values
