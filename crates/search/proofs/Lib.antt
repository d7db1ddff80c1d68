pub mod Blocks
pub mod Offsets
