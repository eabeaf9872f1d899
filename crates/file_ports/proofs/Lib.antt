pub mod MemoryLemmas
pub mod NameLemmas
pub mod SignLemmas
pub mod ReadLemmas
pub mod ChangeLemmas
