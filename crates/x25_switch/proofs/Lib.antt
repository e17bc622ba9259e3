pub mod ApartLemmas
pub mod CallLemmas
mod HeedLemmas
mod RunLemmas
