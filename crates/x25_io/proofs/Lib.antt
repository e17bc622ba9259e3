pub mod LineLemmas
pub mod LooseLemmas
pub mod ReadLemmas
pub mod RunLemmas
pub mod TakerLemmas
pub mod ToldLemmas
