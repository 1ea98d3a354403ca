pub mod ScopeLemmas
