pub mod Commands
pub mod Telling
