pub mod Call
pub mod VerifyCall
pub mod Laws
