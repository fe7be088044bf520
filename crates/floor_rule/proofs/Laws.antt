pub mod Root
pub mod Cut
pub mod Ascent
pub mod Number
pub mod Promise
pub mod Exact
