pub mod Acts
pub mod Drawn
pub mod Appends
pub mod FileCalls
