-- What the laws of this crate say (src/laws.rt), and the machines that they are about.
pub mod Cuts
