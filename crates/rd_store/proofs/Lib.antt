pub mod CellLemmas
pub mod EntryLemmas
pub mod FewLemmas
pub mod IndexLemmas
