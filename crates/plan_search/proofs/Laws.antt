pub mod Held
pub mod Between
pub mod Scan
pub mod Blocks
pub mod Tables
pub mod Loops
pub mod Keys
pub mod Min
