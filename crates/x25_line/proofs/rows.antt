-- Worked rows, by computing.
pub mod StationRowLemmas
pub mod HealingRowLemmas
pub mod SessionRowLemmas
pub mod PeerRowLemmas
pub mod PeerSessionRowLemmas
