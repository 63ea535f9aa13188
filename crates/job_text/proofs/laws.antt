pub mod CutFiles
pub mod Fitting
pub mod Orders
pub mod Records
pub mod Told
