pub mod Sides
pub mod Duals
pub mod Counts
pub mod Stage
