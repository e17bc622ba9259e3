-- What the laws of this crate say (src/law.rt).
pub mod ClockLaw
pub mod WaitLaw
pub mod AnswerLaw
pub mod PullLaw
pub mod SilenceLaw
