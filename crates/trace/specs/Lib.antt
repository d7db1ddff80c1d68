pub mod Trace
pub mod Replay
pub mod Sheet
pub mod Written
