-- Worked rows.
pub mod JoinedRows
pub mod BesidePeerRows
pub mod TimedRows
