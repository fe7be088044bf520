pub mod Print
pub mod Read
pub mod Room
