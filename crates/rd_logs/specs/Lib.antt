pub mod LogLines
pub mod WholeLogs
