-- What each act of an end does to what is kept over sessions.
pub mod SessionRequests
pub mod SessionReceives
pub mod SessionTimers
