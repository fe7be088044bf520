pub mod Cost
pub mod Duals
pub mod Moats
pub mod Stage
pub mod Laws
