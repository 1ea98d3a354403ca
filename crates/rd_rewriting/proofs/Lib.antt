pub mod EndedLemmas
pub mod KeepingLemmas
pub mod LineLemmas
pub mod PermutationLemmas
pub mod ReorderedLemmas
pub mod TextLemmas
pub mod TextsLemmas
