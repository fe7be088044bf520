pub mod Groups
pub mod Entry
pub mod Rows
pub mod Promise
