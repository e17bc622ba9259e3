-- What the laws of this crate say (src/law.rt), and the machines that they are about.
pub mod RunLaw
pub mod WritesRun
