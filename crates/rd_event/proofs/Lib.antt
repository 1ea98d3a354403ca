pub mod CutLemmas
pub mod FrontLemmas
pub mod SlotLemmas
pub mod WordLemmas
pub mod CallLemmas
pub mod ReadingLemmas
pub mod SpellLemmas
