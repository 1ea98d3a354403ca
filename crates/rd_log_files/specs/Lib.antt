pub mod Gathered
pub mod LogFiles
