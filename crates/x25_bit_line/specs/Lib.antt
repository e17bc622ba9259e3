pub mod Deframing
pub mod Framing
pub mod LineBits
pub mod code
pub mod laws
