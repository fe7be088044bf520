pub mod Line
pub mod LinesRender
pub mod LinesAnswer
pub mod Reading
pub mod Render
pub mod WellFormed
pub mod Beginning
pub mod Answer
