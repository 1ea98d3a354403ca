pub mod CauseLemmas
pub mod ExactLemmas
pub mod GivenLemmas
pub mod KnownLemmas
pub mod LineLemmas
pub mod StatusLemmas
pub mod TurnLemmas
