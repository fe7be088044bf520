pub mod Call
pub mod GrowCall
pub mod ClosedCall
pub mod WinterCall
pub mod FloorCall
