pub mod Given
pub mod Writing
pub mod laws
