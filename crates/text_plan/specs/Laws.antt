pub mod Read
pub mod Output
pub mod Cut
pub mod Planned
pub mod Printed
