pub mod Abbreviations
pub mod Bags
pub mod Maps
