pub mod Pipe
pub mod Timed
pub mod code
pub mod laws
pub mod rows
