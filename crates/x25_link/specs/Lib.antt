pub mod Error
pub mod Outgoing
pub mod Station
pub mod Hearing
pub mod Link
pub mod code
pub mod laws
