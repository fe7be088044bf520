pub mod Encodable
pub mod Ends
pub mod Lending
