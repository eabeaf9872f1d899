pub mod Addresses
pub mod Limits
pub mod Ports
