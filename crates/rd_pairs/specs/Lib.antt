pub mod Causes
pub mod PairCauses
pub mod PairJudging
