pub mod Laws
pub mod Records
