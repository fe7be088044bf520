pub mod Passing
pub mod Bit
pub mod Pairs
pub mod Copies
pub mod Call
