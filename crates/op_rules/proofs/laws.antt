pub mod Emits
pub mod Histories
pub mod LastRows
pub mod Ready
pub mod Totals
pub mod Values
pub mod Worths
