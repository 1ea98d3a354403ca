pub mod FirstWrong
pub mod RunLemmas
pub mod StandLemmas
pub mod ReadLemmas
pub mod CanonicalLemmas
pub mod NumberLemmas
