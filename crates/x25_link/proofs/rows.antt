-- Worked rows, by computing.
pub mod NoteRows
pub mod SetUpRows
pub mod StationRows
pub mod WindowRows
pub mod RestRows
pub mod AnswerRows
pub mod BusyRows
