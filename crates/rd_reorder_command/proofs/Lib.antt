pub mod KeptLemmas
pub mod OrderLemmas
pub mod OutcomeLemmas
pub mod ReportLemmas
pub mod ValueLemmas
