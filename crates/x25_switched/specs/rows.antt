-- Worked rows.
pub mod SwitchRows
