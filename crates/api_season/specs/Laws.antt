pub mod Bytes
pub mod Call
pub mod RoundTrip
pub mod Season
