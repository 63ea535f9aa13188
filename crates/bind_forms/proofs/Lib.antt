pub mod Around
pub mod Entries
pub mod Lefts
pub mod Owns
pub mod Tops
