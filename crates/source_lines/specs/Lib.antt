pub mod Feeds
pub mod Fitting
pub mod Folding
pub mod Kept
pub mod Run
pub mod Standing
pub mod Supply
pub mod Taken
