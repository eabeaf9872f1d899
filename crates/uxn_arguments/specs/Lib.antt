pub mod Choices
pub mod Parsing
pub mod Values
pub mod Options
pub mod Words
pub mod ReadsArguments
pub mod Places
