pub mod First
pub mod Route
pub mod Cheapest
