pub mod Added
pub mod Season
pub mod Laws
