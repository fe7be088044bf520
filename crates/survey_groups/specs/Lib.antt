pub mod Spread
pub mod Mate
pub mod Laws
