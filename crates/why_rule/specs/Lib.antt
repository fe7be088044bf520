pub mod Reason
pub mod Why
pub mod True
pub mod Answer
pub mod Promise
