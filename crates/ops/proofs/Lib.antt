pub mod Counts
pub mod Moves
pub mod Calls
pub mod Kit
