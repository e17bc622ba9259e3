-- Any two ends that keep the rules, over set-up and re-set-up.
pub mod Meetings
pub mod Puts
pub mod Lines
pub mod Held
pub mod Moves
pub mod Sessions
