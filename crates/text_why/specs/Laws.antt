pub mod Output
pub mod Cut
pub mod Track
pub mod WhyAnswer
pub mod Printed
