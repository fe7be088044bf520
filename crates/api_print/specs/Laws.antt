pub mod Call
pub mod Table
