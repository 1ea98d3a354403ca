pub mod FilledLemmas
pub mod OpenedLemmas
