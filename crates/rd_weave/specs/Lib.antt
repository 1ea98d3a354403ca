pub mod Answers
pub mod Woven
