pub mod Adjacent
pub mod Beside
