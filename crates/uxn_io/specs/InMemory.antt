pub mod Sinks
pub mod Places
pub mod Trees
