pub mod Sharers
pub mod Shares
pub mod Tables
pub use Rattle.rd_ecl.specs.Kinds
pub use Rattle.rd_rules.specs.MayFollow
