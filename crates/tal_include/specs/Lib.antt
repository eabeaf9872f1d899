pub mod Flat
pub mod Includes
pub mod Splice
pub mod FlatWords
pub mod Sources
pub mod Lines
