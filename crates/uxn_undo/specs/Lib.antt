pub mod Spans
pub mod Changes
pub mod Kept
pub mod Slots
pub mod Rings
pub mod Laws
pub mod Row
pub mod Runs
