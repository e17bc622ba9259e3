-- Worked rows.
pub mod SilentRows
