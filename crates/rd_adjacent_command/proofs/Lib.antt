pub mod AdjoiningLemmas
pub mod CallLemmas
pub mod EndLemmas
pub mod KeptLemmas
pub mod PathLemmas
pub mod ReportLemmas
