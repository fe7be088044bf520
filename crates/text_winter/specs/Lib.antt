pub mod Given
pub mod Render
pub mod Output
