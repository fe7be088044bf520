pub mod Wake
pub mod Loops
