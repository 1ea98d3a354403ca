pub mod Adjoining
pub mod Meanings
pub mod Outcomes
pub mod Reports
pub mod laws
