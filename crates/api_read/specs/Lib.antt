pub mod Call
pub mod StpCall
pub mod Laws
