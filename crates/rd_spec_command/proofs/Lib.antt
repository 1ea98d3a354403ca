pub mod RefusalLemmas
pub mod SpecLemmas
pub mod StatusLemmas
pub mod WholeLemmas
