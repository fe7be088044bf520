pub mod Row
pub mod Pairs
pub mod Laws
