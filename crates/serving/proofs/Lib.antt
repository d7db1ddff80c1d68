pub mod MapRuns
pub mod Serving
pub mod Notes
pub mod Sizes
