pub mod DeclaredLemmas
pub mod ReplayLemmas
pub mod ReplayingLemmas
pub mod ReportLemmas
pub mod StateLemmas
