pub mod Broken
pub mod Events
pub mod MayFollow
pub mod laws
pub use Rattle.rd_ecl.specs.Kinds
