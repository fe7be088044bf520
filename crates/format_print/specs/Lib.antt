pub mod Examples
pub mod Print
pub mod Answer
pub mod Within
pub mod RowText
pub mod Laws
