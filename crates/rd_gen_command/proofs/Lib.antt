pub mod ReportLemmas
pub mod TextLemmas
pub mod WalkLemmas
pub mod WholeLemmas
