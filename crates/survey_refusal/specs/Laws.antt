pub mod Fault
pub mod EdgesFault
