pub mod Reading
pub mod Call
pub mod StpCall
