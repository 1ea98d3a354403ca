pub mod Counts
pub mod EventLists
pub mod Holds
pub mod Noting
pub mod Order
pub mod OrderTests
pub mod Paths
pub mod TestLists
