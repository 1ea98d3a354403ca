pub mod Alike
pub mod Logs
pub mod Samples
pub mod Turns
pub mod WeaveTests
pub mod Weavings
