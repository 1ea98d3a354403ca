pub mod ClockLemmas
pub mod EndingLemmas
pub mod FailedLemmas
pub mod PlainLemmas
