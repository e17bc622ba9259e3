pub mod SwitchLemmas
pub mod BookedLemmas
pub mod rows
