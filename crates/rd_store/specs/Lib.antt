pub mod Stores
pub mod Lent
pub mod StoreParts
pub mod laws
