pub mod Json
pub mod Forms
pub mod Values
pub mod Formulas
