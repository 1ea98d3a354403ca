pub mod Meanings
pub mod Specifications
