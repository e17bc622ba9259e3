-- Worked rows, by computing.
pub mod PipeRowLemmas
