pub mod Stored
pub mod StpOutput
pub mod Laws
