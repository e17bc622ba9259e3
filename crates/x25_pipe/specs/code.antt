-- What the code's values stand for: contracts and proofs need it, and a reader of the claims doesn't.
pub mod Stands
pub mod TimedStands
pub mod Leaves
pub mod Stream
pub mod TimedStream
