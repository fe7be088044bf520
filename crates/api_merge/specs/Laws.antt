pub mod Encodable
pub mod Call
