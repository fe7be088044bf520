pub mod Meaning
pub mod Accuracy
pub mod Exact
pub mod Refusal
