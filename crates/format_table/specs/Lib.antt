pub mod Table
pub mod Turning
pub mod Examples
