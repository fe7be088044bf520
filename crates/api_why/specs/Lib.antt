pub mod Stored
pub mod Call
pub mod Laws
