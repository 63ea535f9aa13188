pub mod Judgement
pub mod Halts
pub mod Views
pub mod Judged
