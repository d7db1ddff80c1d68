pub mod Rooms
pub mod Blocks
