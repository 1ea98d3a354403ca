pub mod FileLemmas
pub mod GatheredLemmas
pub mod LineLemmas
pub mod WithinLemmas
