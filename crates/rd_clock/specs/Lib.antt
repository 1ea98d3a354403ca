pub mod Clock
pub mod Stamps
