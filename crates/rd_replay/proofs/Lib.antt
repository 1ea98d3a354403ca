pub mod CompareLemmas
pub mod EndLemmas
pub mod LawLemmas
pub mod ReplayLemmas
pub mod ReplayerLemmas
