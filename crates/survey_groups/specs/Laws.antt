pub mod Spread
pub mod Cut
pub mod Mate
