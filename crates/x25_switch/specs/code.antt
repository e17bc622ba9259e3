pub mod Legs
pub mod Plain
pub mod Asked
