pub mod Leaders
pub mod Merged
