pub mod Home
pub mod Pouring
pub mod Plan
pub mod Room
pub mod Split
