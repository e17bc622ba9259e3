pub mod laws
pub mod rows
