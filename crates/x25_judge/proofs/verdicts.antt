-- Why the laws hold (src/law.rt).
pub mod Names
pub mod Lines
pub mod Manners
pub mod Octets
pub mod TakenUp
pub mod Following
pub mod Innocents
pub mod Lag
pub mod Stations
pub mod Tapes
pub mod Midst
pub mod Minded
pub mod Guilty
pub mod Beginnings
pub mod Silent
pub mod Silences
pub mod Numbering
