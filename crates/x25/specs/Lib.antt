pub mod Main
pub mod Tasks
