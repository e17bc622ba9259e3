-- Worked rows, by computing.
pub mod SimRows
