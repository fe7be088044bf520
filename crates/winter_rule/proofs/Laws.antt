pub mod Refusal
pub mod Copies
pub mod Promise
