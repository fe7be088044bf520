pub mod TrackTable
pub mod Examples
pub mod Laws
