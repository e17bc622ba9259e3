-- What the code's values stand for: contracts and proofs need it, and a reader of the claims doesn't.
pub mod Cutter
pub mod CutterFields
pub mod PartialMessage
pub mod PartialFields
pub mod CallMemory
pub mod Changes
pub mod FitsNumbers
pub mod Fits
pub mod Replies
pub mod FitsCircuit
pub mod DataPacket
pub mod Owed
