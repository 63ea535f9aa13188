pub mod PartViews
pub mod RankViews
pub mod Sorts
pub mod Splits
