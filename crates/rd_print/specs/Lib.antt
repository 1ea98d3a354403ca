pub mod Canonical
pub mod Printed
pub mod Text
pub mod WordWriting
pub mod Writing
