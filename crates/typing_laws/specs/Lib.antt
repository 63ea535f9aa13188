pub mod Exist
pub mod Meaning
pub mod Reads
