pub mod Covers
pub mod Detect
pub mod Seats
pub mod Taking
