pub mod Tables
pub mod Round
pub mod Represents
pub mod Grown
pub mod Laws
