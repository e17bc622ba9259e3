-- Worked rows, by computing.
pub mod BesideSessionRowLemmas
