pub mod Ascent
pub mod Number
pub mod Floor
pub mod Promise
pub mod Examples
