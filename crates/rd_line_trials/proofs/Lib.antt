pub mod LockLemmas
pub mod TrackerLemmas
