pub mod DisassemblyLemmas
pub mod ListingLemmas
