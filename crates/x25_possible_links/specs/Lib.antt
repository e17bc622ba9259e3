pub mod code
pub mod laws
pub mod rows
