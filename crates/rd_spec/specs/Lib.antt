pub mod Again
pub mod Blocks
