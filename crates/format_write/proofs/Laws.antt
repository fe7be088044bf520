pub mod Decimal
pub mod Members
pub mod Text
pub mod Wrote
