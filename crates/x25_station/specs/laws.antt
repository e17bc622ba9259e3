-- What the laws of this crate say (src/law.rt), and the machines that they are about.
pub mod JoinLaw
pub mod ReadLaw
pub mod KeepLaw
pub mod HoldLaw
pub mod OctetLaw
pub mod TimerLaw
pub mod WayOutLaw
pub mod EndLaw
pub mod UnheardLaw
pub mod ClosingLaw
pub mod SettledLaw
pub mod PullLaw
pub mod GivenLaw
pub mod ConfirmLaw
