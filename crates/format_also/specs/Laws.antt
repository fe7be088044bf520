pub mod Tests
pub mod Turn
pub mod Word
pub mod Passing
pub mod Render
pub mod Reading
pub mod Failing
pub mod Near
