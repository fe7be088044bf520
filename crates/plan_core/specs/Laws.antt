pub mod Finish
pub mod Planned
pub mod Call
pub mod Stages
pub mod Picks
pub mod Figures
pub mod Whole
