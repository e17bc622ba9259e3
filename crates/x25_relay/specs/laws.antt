pub mod Recut
pub mod RecutLaw
