pub mod Output
pub mod Examples
pub mod WhyAnswer
pub mod Laws
