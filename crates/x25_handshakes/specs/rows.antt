-- Worked rows.
pub mod PeerRows
