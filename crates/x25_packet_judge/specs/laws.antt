-- What the laws of this crate say (src/law.rt).
pub mod Order
pub mod BookClaims
pub mod UnseenClaims
