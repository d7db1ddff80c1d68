pub mod Checks
pub mod Counts
