-- What the code's values stand for: contracts and proofs need it, and a reader of the claims doesn't.
pub mod PlainTold
pub mod ShownLine
pub mod ShownWorld
pub mod FitsWorld
pub mod FitsHealing
