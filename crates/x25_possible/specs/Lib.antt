pub mod Channel
pub mod Spots
pub mod code
pub mod laws
pub mod rows
