pub mod GeneratedTexts
pub mod GeneratedWalks
pub mod Meanings
