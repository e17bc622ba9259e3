-- What the laws of this crate say (src/law.rt), and the machines that they are about.
pub mod WindowLaw
pub mod RestLaw
pub mod AnswerLaw
pub mod NoteLaw
pub mod BusyLaw
pub mod LinkLaws
pub mod SetUp
pub mod WindowMachine
