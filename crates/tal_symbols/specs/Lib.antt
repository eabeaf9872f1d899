pub mod SymbolFile
pub mod Reading
pub mod Answers
pub mod Lookups
pub mod Tables
