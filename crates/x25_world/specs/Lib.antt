pub mod Error
pub mod SetUp
pub mod World
pub mod Healing
pub mod BitDamage
pub mod code
pub mod laws
pub mod rows
