pub mod BoundTo
pub mod PlannedInserts
pub mod Theorems
