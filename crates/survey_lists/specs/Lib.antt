pub mod Pouring
pub mod Examples
pub mod Split
