pub mod Words
pub mod Slices
pub mod Call
pub mod Crossing
