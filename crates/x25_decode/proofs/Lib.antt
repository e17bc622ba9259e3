pub mod Names
pub mod StreamLemmas
pub mod FrontLemmas
pub mod HeldLemmas
pub mod VectorLemmas
pub mod VerdictLemmas
pub mod LooseLemmas
