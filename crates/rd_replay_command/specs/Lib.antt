pub mod Meanings
pub mod Replaying
pub mod Reports
pub mod States
