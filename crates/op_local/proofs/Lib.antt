pub mod Along
pub mod Blanks
pub mod Rules
pub mod Tallied
pub mod TellingOn
