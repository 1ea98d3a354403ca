pub mod Accesses
pub mod EpochParts
pub mod Epochs
pub mod Lessons
pub mod Taking
pub mod TestRows
