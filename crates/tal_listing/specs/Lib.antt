pub mod Texts
pub mod LabelChains
pub mod Disassembly
pub mod Listing
