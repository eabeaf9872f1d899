pub mod Gregorian
pub mod Shown
