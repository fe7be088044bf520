pub mod LeftOut
pub mod Alone
pub mod Laws
