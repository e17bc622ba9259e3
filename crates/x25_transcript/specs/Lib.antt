pub mod EntryText
