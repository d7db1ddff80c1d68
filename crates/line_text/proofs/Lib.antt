pub mod Laws
pub mod Sheet
