pub mod Figures
pub mod Report
pub mod Season
pub mod Text
pub mod Examples
