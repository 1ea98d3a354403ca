pub mod MemoryLines
pub mod MemoryTraces
pub use Rattle.rd_event.specs.Items
pub use Rattle.rd_event.specs.Reading
