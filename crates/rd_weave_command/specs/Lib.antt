pub mod Meanings
pub mod Outcomes
