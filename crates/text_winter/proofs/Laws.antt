pub mod Given
pub mod Lines
pub mod Output
pub mod Accepted
