pub mod Prelude
pub mod Tests
pub mod Masks
pub mod Laws
pub mod Big
pub mod Splits
pub mod Starts
