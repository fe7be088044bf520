pub mod Loads
pub mod Clock
pub mod Arrays
pub mod Round
pub mod Rounds
