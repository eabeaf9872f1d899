pub mod WalkLemmas
pub mod ChunkLemmas
pub mod SpokenLemmas
pub mod FlatWordLemmas
pub mod TildeLemmas
pub mod SourceLemmas
