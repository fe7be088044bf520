pub mod Turn
pub mod Ties
pub mod Front
pub mod Output
