-- What the code's values stand for: contracts and proofs need it, and a reader of the claims doesn't.
pub mod Stands
pub mod Leaves
pub mod Stream
