pub mod Counts
pub mod Runs
pub mod Limits
