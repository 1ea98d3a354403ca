pub mod NoLines
