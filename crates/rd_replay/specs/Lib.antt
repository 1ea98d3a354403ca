pub mod Replays
pub mod EndShapes
pub mod Replayer
pub use Rattle.rd_kinds.specs.Machines
pub use Rattle.rd_kinds.specs.Objects
pub use Rattle.rd_object.specs.Machines as ObjectMachines
