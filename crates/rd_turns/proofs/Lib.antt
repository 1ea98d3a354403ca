pub mod WaitingLemmas
pub mod NumberLemmas
pub mod TableLemmas
pub mod StandingLemmas
pub mod FirstLemmas
pub mod TurningLemmas
