pub mod Faults
pub mod Laying
pub mod Steps
pub mod Topped
pub mod Ways
