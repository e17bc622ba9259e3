pub mod Lines
pub mod Loose
pub mod HeldLine
pub mod Fault
pub mod code
