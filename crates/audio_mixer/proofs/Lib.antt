pub mod Ages
pub mod Overs
pub mod Frames
pub mod Passing
