pub mod BesideLemmas
pub mod RangeLemmas
pub mod ReachLemmas
