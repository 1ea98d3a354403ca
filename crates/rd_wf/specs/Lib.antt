pub mod Roster
pub use Rattle.rd_ecl.specs.Kinds
pub use Rattle.rd_rules.specs.Events
pub use Rattle.rd_rules.specs.MayFollow
