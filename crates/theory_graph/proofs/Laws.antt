pub mod Linked
pub mod Component
pub mod Forest
pub mod Label
