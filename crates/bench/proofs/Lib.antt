pub mod Bench
pub mod PlainBench
pub mod Traces
