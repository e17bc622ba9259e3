-- The claims on sessions, from what is kept.
pub mod SessionMeets
pub mod SessionLawful
pub mod SessionArrives
pub mod SessionWaits
pub mod SessionQuiet
