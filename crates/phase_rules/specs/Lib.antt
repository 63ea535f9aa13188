pub mod LocalFits
pub mod LocalGrouping
pub mod LocalPrefixes
pub mod MergeFits
pub mod Merging
