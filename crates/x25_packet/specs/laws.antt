-- What the laws of this crate say (src/law.rt), and the machines that they are about.
pub mod ReadingLaw
pub mod TakingLaw
