pub mod Error
pub mod Route
pub mod Routes
pub mod code
pub mod laws
