-- What the laws of this crate say (src/law.rt).
pub mod AsPeers
pub mod LayerAsPeers
pub mod LayerPeers
pub mod LinkAsPeers
pub mod LinkPeers
pub mod Peers
