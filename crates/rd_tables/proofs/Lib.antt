pub mod CutLemmas
pub mod LookupLemmas
pub mod NameLemmas
pub mod ShareLemmas
pub mod TableLemmas
