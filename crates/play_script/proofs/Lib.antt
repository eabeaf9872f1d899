pub mod LineTexts
pub mod PrintedWords
pub mod RoundTrip
