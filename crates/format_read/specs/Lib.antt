pub mod Step
pub mod Bytes
pub mod Stands
pub mod Language
pub mod Lines
pub mod Items
pub mod Number
pub mod Answer
