pub mod Chain
pub mod Walk
pub mod Done
pub mod Tables
pub mod Laws
