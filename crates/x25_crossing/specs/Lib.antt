pub mod Cause
pub mod Crossing
pub mod Told
pub mod Asking
pub mod code
pub mod laws
