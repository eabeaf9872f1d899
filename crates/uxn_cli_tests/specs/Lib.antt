pub mod Retrying
pub mod RetryingLaws
pub mod Telling
