pub mod NumberLemmas
pub mod ItemLemmas
pub mod RangeLemmas
pub mod WordLemmas
