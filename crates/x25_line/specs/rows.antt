-- Worked rows.
pub mod StationRows
pub mod HealingRows
pub mod SessionRows
pub mod PeerRows
pub mod PeerSessionRows
