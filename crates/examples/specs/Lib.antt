pub mod Examples
pub mod Altered
pub mod StpExamples
pub mod Exact
