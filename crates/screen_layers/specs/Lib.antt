pub mod Control
pub mod Blending
pub mod Drawings
pub mod Pictures
pub mod Layers
pub mod Kept
