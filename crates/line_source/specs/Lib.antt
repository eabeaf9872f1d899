pub mod Source
pub mod Lines
pub mod Memory
pub mod Stream
