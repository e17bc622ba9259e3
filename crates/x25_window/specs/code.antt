-- What the code's values stand for: contracts and proofs need it, and a reader of the claims doesn't.
pub mod Held
pub mod SenderFields
pub mod SenderLends
pub mod Modulo
