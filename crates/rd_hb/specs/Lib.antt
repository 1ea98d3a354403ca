pub mod ClockTests
pub mod EventClocks
pub mod Knows
pub mod Tracker
pub mod TrackerParts
