-- What the code's values stand for: contracts and proofs need it, and a reader of the claims doesn't.
pub mod Plain
pub mod Held
pub mod Shows
pub mod FitsSeen
pub mod Skips
pub mod Fits
pub mod Reading
pub mod Calls
pub mod Prefix
pub mod Register
