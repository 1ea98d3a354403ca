pub mod FailedLemmas
pub mod ObjectLemmas
pub mod PlainLemmas
pub mod StringLemmas
