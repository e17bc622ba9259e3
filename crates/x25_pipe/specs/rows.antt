-- Worked rows.
pub mod PipeRows
