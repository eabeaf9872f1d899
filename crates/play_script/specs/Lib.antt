pub mod PlainText
