-- What the code's values stand for: contracts and proofs need it, and a reader of the claims doesn't.
pub mod PlainEntry
pub mod Entries
pub mod FitsParts
pub mod OverLink
pub mod FitsStation
pub mod Clock
pub mod LinkCalls
pub mod Pulls
pub mod Confirming
