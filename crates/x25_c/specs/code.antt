pub mod Happens
pub mod Clocks
pub mod Receives
pub mod EarlierEntries
