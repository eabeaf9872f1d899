pub mod Colours
pub mod Ppm
