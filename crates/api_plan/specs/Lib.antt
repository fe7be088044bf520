pub mod Call
pub mod GrowCall
pub mod WinterCall
pub mod FloorCall
pub mod Laws
