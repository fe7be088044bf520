pub mod Gap
pub mod Output
