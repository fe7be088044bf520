pub mod TrackTable
