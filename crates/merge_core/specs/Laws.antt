pub mod Stored
pub mod Find
pub mod Row
pub mod Pairs
pub mod Copy
pub mod Merge
