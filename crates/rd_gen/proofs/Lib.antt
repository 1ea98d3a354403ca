pub mod CallLemmas
pub mod CountLemmas
