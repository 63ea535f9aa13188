pub mod Nodes
pub mod Reading
pub mod Reads
pub mod ReadsScripts
pub mod Scripts
pub mod Shapes
pub mod Spells
pub mod Words
