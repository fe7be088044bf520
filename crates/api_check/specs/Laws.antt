pub mod Call
pub mod VerifyCall
