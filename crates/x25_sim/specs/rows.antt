-- Worked rows.
pub mod ScriptRows
