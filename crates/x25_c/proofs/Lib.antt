pub mod Names
pub mod EarlierLemmas
pub mod BoxLemmas
pub mod HappenLemmas
pub mod AskedLemmas
pub mod ItemLemmas
pub mod TakeLemmas
pub mod ReceiveLemmas
