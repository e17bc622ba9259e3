-- Proofs of worked rows.
pub mod SwitchRowLemmas
