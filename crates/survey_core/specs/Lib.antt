pub mod Lists
pub mod Pairs
pub mod Survey
pub mod Sound
pub mod Refusal
pub mod Accuracy
