pub mod Laying
pub mod Nodes
pub mod Ports
pub mod Stages
pub mod Started
