pub mod KindLemmas
pub mod FrameLemmas
pub mod ReadingLawLemmas
