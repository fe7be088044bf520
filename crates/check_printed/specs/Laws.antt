pub mod Verify
pub mod Accuracy
pub mod Prefix
pub mod Same
pub mod Passes
pub mod Length
pub mod Whole
