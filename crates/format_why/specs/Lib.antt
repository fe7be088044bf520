pub mod ReasonText
pub mod Within
pub mod Examples
pub mod Laws
