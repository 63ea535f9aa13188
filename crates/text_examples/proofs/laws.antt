pub mod JudgeTheorems
pub mod LineTheorems
pub mod TextTheorems
