pub mod Added
pub mod Front
pub mod Print
pub mod Season
