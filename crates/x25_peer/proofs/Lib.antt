pub mod Names
pub mod Granted
pub mod ReadLemmas
pub mod sessions
pub mod rows
