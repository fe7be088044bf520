pub mod Verify
pub mod Worth
pub mod Answer
pub mod Laws
