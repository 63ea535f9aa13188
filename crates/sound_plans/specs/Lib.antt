pub mod Agrees
pub mod JoinFits
pub mod Outputs
pub mod Promises
pub mod RowFits
pub mod Sound
pub mod States
pub mod TameOps
