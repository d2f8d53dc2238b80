pub mod TreeTexts
pub mod Tokens
pub mod Reading
pub mod Sentence
