pub mod Room
pub mod Farther
pub mod Lines
pub mod PrintRoom
pub mod Survey
pub mod Columns
