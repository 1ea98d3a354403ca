pub mod LeaderLemmas
pub mod MergedLemmas
pub mod PositionLemmas
pub mod StepLemmas
