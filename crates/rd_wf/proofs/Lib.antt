pub mod BytesLemmas
pub mod CauseLemmas
pub mod HeldLemmas
pub mod LockLemmas
pub mod NearLemmas
pub mod NextLemmas
pub mod RangeLemmas
pub mod RosterLemmas
