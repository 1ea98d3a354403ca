pub mod DefinitionLemmas
pub mod FormLemmas
pub mod JudgeLemmas
pub mod MarkLemmas
pub mod MeaningLemmas
pub mod NumberLemmas
pub mod PairLemmas
pub mod ScopeLemmas
