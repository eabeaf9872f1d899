pub mod Expansion
pub mod RangeLaws
pub mod DebugText
