pub mod Held
pub mod Between
pub mod Scan
pub mod Tables
pub mod Keys
