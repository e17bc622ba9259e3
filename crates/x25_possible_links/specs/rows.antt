-- Worked rows.
pub mod Rows
