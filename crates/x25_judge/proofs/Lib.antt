pub mod LineLemmas
pub mod StreamLemmas
pub mod CountLemmas
pub mod Passing
pub mod MidstLemmas
mod DoubtLemmas
pub mod verdicts
