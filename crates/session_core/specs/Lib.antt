pub mod Faults
pub mod Kept
pub mod LaidOut
pub mod Relay
pub mod Relayed
pub mod Runs
pub mod Sources
pub mod Stands
