pub mod Adding
pub mod Causes
pub mod Judging
pub mod Known
pub mod Parts
pub mod Reading
pub mod RefusedTexts
pub mod Texts
