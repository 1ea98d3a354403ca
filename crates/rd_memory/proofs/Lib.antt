pub mod MemoryLemmas
pub mod TraceLemmas
