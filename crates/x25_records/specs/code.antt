-- What the code's values stand for: contracts and proofs need it, and a reader of the claims doesn't.
pub mod Stream
