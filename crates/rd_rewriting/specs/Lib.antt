pub mod Ended
pub mod Keeping
pub mod Reordered
pub mod Texts
pub mod laws
