pub mod Counts
pub mod Generated
pub mod Generator
