pub mod Calls
pub mod Kinds
pub mod Opened
pub mod Streams
pub mod Folders
pub mod Listing
