-- What the laws of this crate say (src/law.rt), and the machines that they are about.
pub mod Acknowledged
pub mod Law
pub mod Rounds
pub mod RoundLaw
pub mod FairLaw
pub mod NameLaw
pub mod ApartLaw
pub mod WaitLaw
pub mod Apart
pub mod Bare
pub mod PeerJoined
pub mod PeerClaims
pub mod Quiet
pub mod Transcript
pub mod TwoLayers
