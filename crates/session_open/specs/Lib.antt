pub mod Locals
pub mod Made
pub mod Modes
pub mod Opening
pub mod Running
pub mod Wired
