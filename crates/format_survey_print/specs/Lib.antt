pub mod Print
pub mod Laws
