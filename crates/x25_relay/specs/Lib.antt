pub mod Error
pub mod Relay
pub mod code
pub mod laws
