pub mod Ties
pub mod Output
pub mod Front
pub mod Laws
