pub mod Winter
pub mod Promise
