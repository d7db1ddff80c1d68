pub mod Checks
pub mod Filling
