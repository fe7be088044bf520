pub mod Drawing
pub mod Members
pub mod Rising
pub mod Trace
pub mod Drawable
pub mod Growth
