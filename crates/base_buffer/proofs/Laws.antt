pub mod Store
pub mod Part
