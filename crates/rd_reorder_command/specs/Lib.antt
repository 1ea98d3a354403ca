pub mod Meanings
pub mod Outcomes
pub mod Reordering
pub mod Reports
pub mod Values
pub mod laws
