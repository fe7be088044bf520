pub mod Bits
pub mod Record
