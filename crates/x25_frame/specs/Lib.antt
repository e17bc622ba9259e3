pub mod Frame
pub mod Spelling
pub mod Error
pub mod Reading
pub mod laws
