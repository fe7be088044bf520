pub mod Output
pub mod Examples
pub mod Planned
pub mod Laws
