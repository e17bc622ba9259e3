-- What holds over set-up and re-set-up: proofs of the claims on sessions.
pub mod SessionTrace
pub mod SessionCounts
pub mod SessionConfirms
pub mod SessionReaches
pub mod SessionBeside
pub mod SessionJoined
pub mod SessionEntries
pub mod SessionKnown
pub mod SessionGoes
pub mod SessionFollows
pub mod SessionRuns
pub mod SessionsAlong
pub mod acts
pub mod claims
