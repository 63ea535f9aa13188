pub mod Comings
pub mod MaterializeArrivals
