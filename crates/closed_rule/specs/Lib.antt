pub mod Closed
pub mod Promise
