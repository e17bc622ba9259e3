-- Worked rows.
pub mod BesideSessionRows
