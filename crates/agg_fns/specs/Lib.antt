pub mod ComeAndGone
pub mod Counts
pub mod MergedPartials
pub mod Partial
pub mod PartialResults
pub mod Picked
pub mod Reading
pub mod Standing
