pub mod Lines
pub mod LinesAnswer
pub mod Plan
pub mod WellFormed
pub mod Examples
pub mod Answer
pub mod Remark
