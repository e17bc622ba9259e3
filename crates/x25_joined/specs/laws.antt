-- What the laws of this crate say (src/law.rt), and the machines that they are about.
pub mod JoinedClaims
pub mod Joined
pub mod BesidePeer
pub mod BesidePeerClaims
pub mod Obeyed
pub mod Played
pub mod PlayedClaims
pub mod TimedJoined
pub mod TimedJoinedClaims
pub mod TimedPeer
pub mod TimedPeerClaims
