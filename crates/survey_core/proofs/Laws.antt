pub mod Lists
pub mod Pairs
pub mod Member
pub mod Refusal
pub mod Group
pub mod Accuracy
