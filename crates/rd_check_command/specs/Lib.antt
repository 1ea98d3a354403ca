pub mod Checked
pub mod Checking
pub mod Meanings
pub mod Replayed
pub mod Reports
pub mod Verdicts
pub mod laws
