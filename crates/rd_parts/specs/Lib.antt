pub mod Entries
pub mod Items
pub mod Parts
pub mod laws
pub use Rattle.rd_ecl.specs.Formulas
pub use Rattle.rd_ecl.specs.Specified
pub use Rattle.rd_object.specs.Machines as ObjectMachines
