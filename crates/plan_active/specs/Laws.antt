pub mod Flags
pub mod Listed
pub mod Merged
pub mod First
