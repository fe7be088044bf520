pub mod Printed
pub mod Calls
pub mod Handset
pub mod Texts
pub mod Lines
