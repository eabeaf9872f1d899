pub mod Cutting
pub mod ReadingLemmas
pub mod WritingLemmas
pub mod NearestLemmas
pub mod TableLemmas
