-- What the laws of this crate say (src/law.rt), and the traces that they are about.
pub mod Sessions
pub mod Session
pub mod Watching
pub mod Explaining
pub mod VerdictClaims
pub mod Tapes
pub mod Midst
pub mod DoubtClaims
