pub mod Path
pub mod Component
