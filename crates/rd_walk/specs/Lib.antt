pub mod AcceptedLines
pub mod Analysis
pub mod Meanings
pub mod Output
pub mod Progress
pub mod Taking
pub mod Traces
pub mod Walk
