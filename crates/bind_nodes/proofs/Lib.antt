pub mod Behind
pub mod Folds
pub mod OneOrTwo
pub mod Pairs
