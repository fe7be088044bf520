pub mod First
pub mod Pair
pub mod Kept
pub mod Reason
pub mod Promise
