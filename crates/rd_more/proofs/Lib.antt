pub mod AskLemmas
pub mod CountLemmas
pub mod MoreLemmas
