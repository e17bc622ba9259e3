-- What the laws of this crate say (src/law.rt), and the machines that they are about.
pub mod Claims
pub mod BesideClaims
pub mod ConfirmedClaims
pub mod SessionClaims
pub mod LawsBelow
pub mod OctetLaw
pub mod WaitClaims
pub mod SessionWindow
pub mod Sessions
pub mod TapOctets
