pub mod ReadingTokens
pub mod ReadingWords
pub mod Tokens
pub mod Words
