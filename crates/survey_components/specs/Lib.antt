pub mod Buffer
pub mod Roots
pub mod Met
pub mod Labels
pub mod Forest
pub mod Laws
