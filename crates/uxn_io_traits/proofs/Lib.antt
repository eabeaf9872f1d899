pub mod ComponentLemmas
pub mod PathLemmas
pub mod PutLemmas
pub mod ReadLemmas
pub mod AskingLemmas
