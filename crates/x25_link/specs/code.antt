-- What the code's values stand for: contracts and proofs need it, and a reader of the claims doesn't.
pub mod Places
pub mod OutgoingHeld
pub mod Frames
pub mod Fits
pub mod FitsLink
pub mod Bounds
