pub mod Events
pub mod Items
pub mod Reading
pub mod ReadingSlots
pub use Rattle.rd_base.specs.Names
pub use Rattle.rd_base.specs.Spelling
