pub mod ReadingLaw
