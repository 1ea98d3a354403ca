pub mod Endings
pub mod Texts
pub mod Races
pub mod States
pub mod Writing
