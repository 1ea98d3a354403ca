pub mod BuildingLemmas
pub mod FindingLemmas
pub mod OutlineLemmas
pub mod ReadingLemmas
pub mod SayingLemmas
