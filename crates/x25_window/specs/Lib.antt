pub mod Sender
pub mod Receiver
pub mod code
pub mod laws
