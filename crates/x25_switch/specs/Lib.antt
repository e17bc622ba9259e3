pub mod Leg
pub mod Calls
pub mod Switch
pub mod Request
pub mod code
pub mod laws
