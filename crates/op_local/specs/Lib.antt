pub mod Amounting
pub mod Telling
