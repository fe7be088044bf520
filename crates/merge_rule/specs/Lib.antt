pub mod Ties
pub mod Merged
pub mod Refusal
pub mod ReadOut
pub mod Sound
pub mod Promise
pub mod Shifted
pub mod Examples
