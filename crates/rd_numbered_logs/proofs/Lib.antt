pub mod NameLemmas
pub mod StepLemmas
pub mod MarkLemmas
pub mod LogLemmas
pub mod LawLemmas
