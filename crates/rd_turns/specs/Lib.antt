pub mod NumberedLogs
pub mod Standing
pub mod Waiting
pub mod Turning
