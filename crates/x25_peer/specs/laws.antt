-- What the law of this crate says (src/law.rt), and the world that it is about.
pub mod BesideSessions
pub mod BesideSessionClaims
