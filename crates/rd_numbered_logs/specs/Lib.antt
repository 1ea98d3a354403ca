pub mod LogNames
pub mod LogsUnder
pub mod Numbering
