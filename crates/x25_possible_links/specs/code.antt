-- A set over lists, in the order in which the code goes.
pub mod Steps
