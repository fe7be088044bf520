pub mod Words
pub mod Lengths
pub mod Pairs
pub mod Result
pub mod Call
pub mod Crossing
