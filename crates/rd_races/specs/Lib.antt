pub mod Commuting
pub mod RaceTests
pub mod Races
