mod ArgumentLemmas
mod LineLemmas
mod ReadingLemmas
