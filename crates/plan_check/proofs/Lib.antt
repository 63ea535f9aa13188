pub mod Firsts
pub mod Walked
