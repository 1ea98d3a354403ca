pub mod LogLemmas
pub mod WholeLemmas
