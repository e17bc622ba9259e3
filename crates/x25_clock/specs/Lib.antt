pub mod Times
pub mod Due
pub mod Clock
pub mod Awaited
pub mod laws
pub mod rows
