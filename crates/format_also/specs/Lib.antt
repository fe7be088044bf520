pub mod Pair
pub mod Render
pub mod WellFormed
pub mod Examples
pub mod Answer
pub mod Laws
