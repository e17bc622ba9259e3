-- Worked rows.
pub mod WorldRows
