-- Worked rows, by computing.
pub mod RowLemmas
