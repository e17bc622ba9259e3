-- Worked rows, by computing.
pub mod JoinedRowLemmas
pub mod BesidePeerRowLemmas
pub mod TimedRowLemmas
