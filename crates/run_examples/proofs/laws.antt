pub mod InferenceTheorems
pub mod JoinsListed
pub mod RowsListed
pub mod RunTheorems
