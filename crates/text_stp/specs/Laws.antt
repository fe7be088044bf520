pub mod Stored
pub mod StpOutput
