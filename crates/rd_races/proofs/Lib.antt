pub mod CommutingLemmas
pub mod RaceLemmas
