pub mod Wake
pub mod Laws
