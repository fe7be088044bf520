pub mod Drawing
pub mod Trace
pub mod Members
