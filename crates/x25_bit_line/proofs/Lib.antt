pub mod Names
pub mod TellingLemmas
pub mod ReadsLemmas
pub mod OctetLemmas
pub mod SendingLemmas
pub mod FrameLineLemmas
pub mod FramesLemmas
pub mod BackLemmas
