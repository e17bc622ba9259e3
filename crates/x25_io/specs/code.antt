-- What the code's values stand for: contracts and proofs need it, and a reader of the claims doesn't.
pub mod LinesLead
pub mod MarksFaults
pub mod OutputLends
pub mod Runs
pub mod Written
