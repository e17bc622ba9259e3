pub mod Healing
pub mod laws
pub mod rows
