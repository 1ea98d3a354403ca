pub mod CauseLemmas
pub mod EventsLemmas
pub mod FollowLemmas
pub mod PlaceLemmas
pub mod UseLemmas
