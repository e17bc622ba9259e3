pub mod Telling
pub mod Stage
pub mod code
pub mod laws
pub mod rows
