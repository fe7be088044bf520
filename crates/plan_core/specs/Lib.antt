pub mod Grown
pub mod Picks
pub mod Planned
pub mod Laws
