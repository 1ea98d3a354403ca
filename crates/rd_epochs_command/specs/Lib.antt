pub mod Firsts
pub mod Lines
pub mod Meanings
pub mod Reports
pub mod Watching
pub mod laws
