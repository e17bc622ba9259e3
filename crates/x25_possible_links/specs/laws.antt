-- What the laws of this crate say (src/law.rt).
pub mod Link
pub mod Links
pub mod Places
pub mod Sets
