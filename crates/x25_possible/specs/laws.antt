-- What the laws of this crate say (src/law.rt).
pub mod Possible
pub mod Sets
pub mod Beyond
