-- What the laws of this crate say (src/law.rt), and the rules of an end that they are about.
pub mod Calls
pub mod Handshake
pub mod Histories
pub mod LawsBelow
pub mod Layers
pub mod Names
pub mod PeerCalls
pub mod PeerChannel
pub mod PeerClaims
pub mod PeerLayer
pub mod PeerLayers
pub mod PeerStretch
pub mod PeerTransfer
pub mod Stretch
pub mod Terms
pub mod TwoLayers
pub mod TwoPeers
