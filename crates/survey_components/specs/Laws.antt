pub mod Front
pub mod Buffer
pub mod Roots
pub mod Met
pub mod Labels
pub mod Picked
pub mod Forest
