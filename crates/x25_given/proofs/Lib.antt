pub mod GivenLemmas
pub mod WrittenLemmas
pub mod WritingLemmas
