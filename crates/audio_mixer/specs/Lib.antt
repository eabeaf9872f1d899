pub mod Notes
pub mod Sounds
pub mod Voices
pub mod Laws
