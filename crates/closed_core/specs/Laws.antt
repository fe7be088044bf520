pub mod LeftOut
pub mod Alone
pub mod AloneSurvey
pub mod Answer
pub mod Entry
pub mod Rows
pub mod Call
