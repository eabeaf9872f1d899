pub mod Expansion
pub mod Bodies
pub mod Steps
pub mod Passing
pub mod Heads
