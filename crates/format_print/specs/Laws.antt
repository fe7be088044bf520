pub mod Print
pub mod Room
pub mod Answer
pub mod Row
