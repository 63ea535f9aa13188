pub mod LocalFacts
pub mod LocalSums
pub mod LocalTold
pub mod LocalWorths
pub mod MergeFacts
pub mod MergedPieces
pub mod MergedRows
pub mod MergedSums
