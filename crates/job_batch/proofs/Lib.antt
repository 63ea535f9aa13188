pub mod LinesOfRuns
pub mod Tables
pub mod Taken
pub mod Over
pub mod Widths
pub mod laws
